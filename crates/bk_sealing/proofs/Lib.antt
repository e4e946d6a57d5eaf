mod Carried
mod Kept
mod Listed
mod Named
mod Seen
mod Still
mod Fronts
