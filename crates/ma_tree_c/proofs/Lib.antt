-- `Tied`: what the exports' own contracts say.
pub mod Tied
