-- `Column`: one property of a span's rows, and its probe. `Plan`: what picking candidates asks for.
pub mod Column
pub mod Plan
