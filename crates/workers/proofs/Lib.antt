mod SeatsFrom
mod Served
mod Continuation
