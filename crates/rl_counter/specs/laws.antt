pub mod CounterMoves
pub mod CounterKeeps
pub mod CounterMarks
pub mod CounterFrame
pub mod CounterLaws
