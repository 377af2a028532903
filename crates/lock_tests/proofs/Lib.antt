pub mod FourRanks
pub mod PairLaws
pub mod RoundBegins
pub mod TwoNodes
