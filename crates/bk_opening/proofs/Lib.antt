mod Bringing
mod Causes
mod Loading
mod NoteFacts
mod Places
mod Resting
mod Settled
mod Undoing
