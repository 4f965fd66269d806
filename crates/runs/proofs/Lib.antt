mod Playing
mod Solo
mod Feeding
mod Return
