-- a rank alone at its site
pub mod OneRank
