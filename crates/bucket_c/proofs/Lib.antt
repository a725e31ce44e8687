mod Crosses
mod Holding
