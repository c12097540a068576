mod AsBox
mod Written
mod ReadBack
mod CallLemmas
mod PlaceLemmas
