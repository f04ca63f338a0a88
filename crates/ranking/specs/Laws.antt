-- Laws of rank: who is dominated, rows put in one by one, and the promise.
pub mod Places
pub mod Dominated
pub mod Put
pub mod Insert
pub mod Ranked
pub mod Rank
pub mod RankTold
