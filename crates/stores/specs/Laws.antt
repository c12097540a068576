-- What holds of the bytes of stores and of changes
use Rattle.std.specs.Prelude.{ℕ, List}
use Rattle.stores.specs.declared.change.Change.{Change}
use Rattle.stores.specs.Store.{TheStore, FitAll, applied_all}
use Rattle.stores.specs.Format.{IsStoreBytes}
use Rattle.stores.specs.Changes.{AreChanges}

-- these bytes are those of the store after these changes
abbrev pub AreLater : List ℕ → List ℕ → List ℕ → Type 0
AreLater store changes later = (s : TheStore) (ks : List Change) → IsStoreBytes s store → AreChanges ks changes → FitAll ks s
    × IsStoreBytes (applied_all ks s) later
