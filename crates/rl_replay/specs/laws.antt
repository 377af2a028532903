pub mod RestedLaws
pub mod RoundLaws
pub mod RunLaws
