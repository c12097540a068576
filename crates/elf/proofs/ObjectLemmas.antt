-- The functions of a table and of a file, one more at a time.
use Rattle.std.proofs.Common.{◌≡◌, ◌<◌, ◌≤◌, ◌+◌, ◌*◌, ◌/◌, ◌^◌, ◌++◌, ◌∷◌, ◌∙◌, inl, inr, min, suc, ℕ, List, [], Option, length, get_or, refl, add-one, append-nil, append_assoc, ap, arith, subst, sym}
use Rattle.elf.specs.Inside.{IsUnread, IsUnreadRow, IsUnreadTable}
use Rattle.elf.specs.Refusal.{AreBytesOutside, IsDamaged, IsFaultOf, IsRefusal}
use Rattle.elf.specs.declared.fault.ObjectError.{ObjectError}
use Rattle.elf.specs.declared.fault.ObjectError.TheVariants.{Fault, Memory}
use Rattle.elf.specs.Object.{bytes_at, contents_of, functions_below, functions_in, functions_of_table, if_function, section_at, section_count, sizes_below, stored_size, symbol_at, symbol_in}
use Rattle.elf.specs.declared.section.Section.{Section}
use Rattle.elf.specs.declared.symbol.Symbol.{Symbol}

-- no row has none, and one more row adds its own
pub first_row : (file : List ℕ) (table : Section) (old : List Symbol) → old ≡ old ++ functions_in file table 0
unfolding functions_in
first_row file table old = sym (append-nil old)

pub more_rows : (file : List ℕ) (table : Section) (row : ℕ) (old now after : List Symbol) (names : ℕ) (bytes : List ℕ)
    → now ≡ old ++ functions_in file table row → after ≡ now ++ if_function file (symbol_in names bytes)
    → names ≡ (section_at file table.link).offset → bytes ≡ bytes_at (row * 24) 24 (contents_of table file)
    → after ≡ old ++ functions_in file table (row + 1)
unfolding functions_in
more_rows file table row old now after names bytes before added named is =
    let here : if_function file (symbol_in names bytes) ≡ if_function file (symbol_at file table row) =
    ap (λ n. if_function file (symbol_in n bytes)) named ∙ ap (λ b. if_function file (symbol_in (section_at file table.link).offset b)) is in
    rw add-one (
    added ∙ ap (λ xs. xs ++ if_function file (symbol_in names bytes)) before
    ∙ ap (λ ys. (old ++ functions_in file table row) ++ ys) here ∙ append_assoc old (functions_in file table row) (if_function file (symbol_at file table row))
    )

-- no section has none, and one more section adds its own
pub first_section : (file : List ℕ) → functions_below file 0 ≡ []
unfolding functions_below
first_section file = refl

pub more_sections : (file : List ℕ) (index : ℕ) (now after : List Symbol) (section : Section) → now ≡ functions_below file index
    → after ≡ now ++ functions_of_table file section → section ≡ section_at file index → after ≡ functions_below file (index + 1)
unfolding functions_below
more_sections file index now after section before added is =
    rw add-one (added ∙ ap (λ xs. xs ++ functions_of_table file section) before ∙ ap (λ s. functions_below file index ++ functions_of_table file s) is)

-- a list of one
pub single : (xs : List Symbol) (x : Symbol) → length xs ≡ 1 → x ≡ get_or xs 0 x → xs ≡ x ∷ []
single [] x one is = absurd (omega arith)
single (y ∷ []) x one is = ap (λ z. z ∷ []) (sym is)
single (y ∷ z ∷ rest) x one is = absurd (omega arith)

pub bytes_damage : (file : List ℕ) (index : ℕ) → index < section_count file → ¬ ((section_at file index).kind ≡ 8)
    → AreBytesOutside file (section_at file index) → IsDamaged file
bytes_damage file index lt kind away = (index, lt, inr (inr (inl (kind, away))))

-- a row that isn't read is one of a table that isn't
pub row_unread : (file : List ℕ) (table : Section) (row names : ℕ) (bytes : List ℕ) (e : ObjectError) → row < table.size / 24 → table.kind ≡ 2
    → names ≡ (section_at file table.link).offset → bytes ≡ bytes_at (row * 24) 24 (contents_of table file)
    → IsUnreadRow file names bytes e → IsUnreadTable file table e
row_unread file table row names bytes Memory lt kind named is why = tt
row_unread file table row names bytes (Fault fault) lt kind named is (damaged, inl why) = (damaged, inl why)
row_unread file table row names bytes (Fault fault) lt kind named is (damaged, inr high) =
    let here : symbol_in names bytes ≡ symbol_at file table row =
    ap (λ n. symbol_in n bytes) named ∙ ap (λ b. symbol_in (section_at file table.link).offset b) is in
    (damaged, inr (kind, inr (inr (row, lt, subst (λ (s : Symbol). 2 ^ 64 ≤ s.name) here high))))

-- a table that isn't read damages its file
pub table_unread : (file : List ℕ) (index : ℕ) (e : ObjectError) → index < section_count file → IsUnreadTable file (section_at file index) e
    → IsUnread file e
table_unread file index Memory lt why = tt
table_unread file index (Fault fault) lt (damaged, inl why) = (damaged, why)
table_unread file index (Fault fault) lt (damaged, inr (kind, inl away)) =
    (damaged, bytes_damage file index lt (λ eight. absurd (omega arith)) away)
table_unread file index (Fault fault) lt (damaged, inr (kind, inr nameless)) = (damaged, (index, lt, inr (inr (inr (kind, nameless)))))

-- the sizes of the sections, one more at a time
pub no_sizes : (file : List ℕ) → 0 ≡ sizes_below file 0
unfolding sizes_below
no_sizes file = refl

pub more_sizes : (file : List ℕ) (index total : ℕ) (section : Section) → total ≡ sizes_below file index → section ≡ section_at file index
    → total + stored_size section ≡ sizes_below file (suc index)
unfolding sizes_below
more_sizes file index total section before is = rw before (ap (λ (s : Section). sizes_below file index + stored_size s) is)

pub sizes_damage : (file : List ℕ) (index total stored sum : ℕ) (section : Section) → index < section_count file → total ≡ sizes_below file index
    → section ≡ section_at file index → stored ≡ stored_size section → sum ≡ min (total + stored) 18446744073709551615 → length file < sum
    → IsDamaged file
sizes_damage file index total stored sum section lt before is counted added over =
    let all : total + stored ≡ sizes_below file (suc index) = rw counted (more_sizes file index total section before is) in
    (index, lt, inr (inl (omega arith)))

pub sizes_kept : (file : List ℕ) (index total stored sum : ℕ) (section : Section) → total ≡ sizes_below file index
    → section ≡ section_at file index → stored ≡ stored_size section → sum ≡ min (total + stored) 18446744073709551615 → ¬ (length file < sum)
    → length file < 9223372036854775808 → sum ≡ sizes_below file (suc index)
sizes_kept file index total stored sum section before is counted added within short =
    let all : total + stored ≡ sizes_below file (suc index) = rw counted (more_sizes file index total section before is) in
    omega arith

-- a file that isn't read is refused
pub unread_refused : (file : List ℕ) (name : Option (List ℕ)) (e : ObjectError) → IsUnread file e → IsRefusal file name e
unread_refused file name Memory why = tt
unread_refused file name (Fault fault) (damaged, why) = subst (IsFaultOf file name) (sym damaged) (inl why)
