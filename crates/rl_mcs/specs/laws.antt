pub mod McsLearns
pub mod McsLaws
pub mod McsFar
pub mod McsEnding
pub mod McsGuiding
