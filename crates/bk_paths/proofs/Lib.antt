mod Machines
mod Redone
mod Settling
