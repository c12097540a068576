mod CauseLemmas
mod EndLemmas
mod FewLemmas
