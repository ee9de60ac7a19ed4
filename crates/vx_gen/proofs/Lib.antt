mod Numbers
mod Parts
mod Scanned
mod Lines
mod Texts
mod Spelled
mod Typed
