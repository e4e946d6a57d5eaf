mod Behind
mod Copied
mod Floors
mod Founded
mod More
mod Renoted
