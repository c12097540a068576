mod FeedsLemmas
mod LiveLemmas
