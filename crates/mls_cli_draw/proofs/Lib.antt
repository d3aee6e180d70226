mod Stems
mod Drawn
mod Subtrees
mod Texts
