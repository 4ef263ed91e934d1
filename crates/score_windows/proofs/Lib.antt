-- `Windowing`: a window holds what is counted; the loops' turns.
pub mod Windowing
