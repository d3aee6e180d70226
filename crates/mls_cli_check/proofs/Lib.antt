pub mod Reports
mod GoodTrees
mod GroupInfos
mod InfoLengths
mod Orders
mod Pictures
mod SentTrees
mod ShortLeaves
mod Texts
