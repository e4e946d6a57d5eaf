mod Cuts
mod Runs
mod Logs
mod Leaving
mod Beginnings
mod Happens
