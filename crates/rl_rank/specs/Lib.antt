-- to be believed, in reading order
pub mod Running
pub mod Split
pub mod Whole
pub mod Opening
pub mod Causes
pub mod Domains
-- what is left to do of a shard
pub mod Begun
pub mod WholeLeft
pub mod WholeGuiding
-- what is good of a shard
pub mod WholeShards
pub mod SeenLoads
pub mod Holders
pub mod laws
