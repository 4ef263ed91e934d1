-- `Words` says what the machine's operations on 32-bit words make of the definitions.
pub mod Words
