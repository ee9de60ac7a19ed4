mod Branches
mod Forms
mod Iterations
