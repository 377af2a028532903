pub mod Places
pub mod ActLaws
pub mod FactLaws
pub mod OneNode
