mod OneRow
mod OneServing
mod GoingOn
mod OneSession
mod OneCut
mod OneOutput
mod Fitting
