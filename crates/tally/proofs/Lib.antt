mod Keeping
mod Soundness
mod Meaning
