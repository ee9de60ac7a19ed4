mod Statuses
mod Scripts
mod Readable
mod Companions
mod Untouched
mod Either
mod Due
mod WholeRuns
