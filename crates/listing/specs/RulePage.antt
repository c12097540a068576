-- The pages of the rules.
use Rattle.std.specs.Prelude.{ℕ, List, cond, codes}
use Rattle.std.specs.Str.{bytes_eq}
use Rattle.listing.specs.declared.rule_text.TheConstants.{INDEX, V1, V2, V3, V4, V5, V6, V7, V8, V9, V10}

-- the page of the rule with this name, or the list of all rules
abbrev pub page_text : List ℕ → List ℕ
page_text rule =
    cond (bytes_eq rule (codes "V1")) V1.now (cond (bytes_eq rule (codes "V2")) V2.now (cond (bytes_eq rule (codes "V3")) V3.now
    (cond (bytes_eq rule (codes "V4")) V4.now (cond (bytes_eq rule (codes "V5")) V5.now (cond (bytes_eq rule (codes "V6")) V6.now
    (cond (bytes_eq rule (codes "V7")) V7.now (cond (bytes_eq rule (codes "V8")) V8.now (cond (bytes_eq rule (codes "V9")) V9.now
    (cond (bytes_eq rule (codes "V10")) V10.now INDEX.now)))))))))
