mod Steps
mod Counting
mod Amid
