mod Appending
mod OneOfMany
mod TakingKeys
