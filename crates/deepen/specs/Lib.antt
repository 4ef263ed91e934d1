-- `Deepens`: what deepening asks for.
pub mod Deepens
