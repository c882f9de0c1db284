mod Consoles
mod Lines
mod Pumps
mod Serves
mod Writes
