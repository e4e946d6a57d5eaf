mod Acts
mod Sayings
mod Restores
mod Crashes
mod Waiting
mod Telling
