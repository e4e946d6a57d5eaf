mod Forms
mod Steps
