-- `Learns`: what learning asks for.
pub mod Learns
