mod Levels
mod Same
mod Descends
mod Chains
mod Refused
mod Statements
mod Trees
mod Worked
