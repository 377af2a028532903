-- to be believed, in reading order
pub mod Counter
pub mod CounterGood
pub mod CounterStatements
pub mod laws
