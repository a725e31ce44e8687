mod Copied
mod CopiedTexts
mod Folds
mod InBucket
mod KeysCalled
mod Lent
mod Refused
