-- `Lists`: the lent lists with node and span records, and what they hold afterwards.
pub mod Lists
