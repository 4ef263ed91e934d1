-- `Agreeing`: the operations, record by record, are the model's. `Checking`: what the checks say and ensure.
pub mod Agreeing
pub mod Checking
