-- The refusal of a port by the names of a net is that by the declared outputs of its design.
use Rattle.std.specs.Prelude.{◌≡◌, refl, ◌==◌, ◌&&◌, not, ℕ, List, [], ◌∷◌, ◌++◌, map, Option, Some, None, find}
use Rattle.std.specs.Prelude.{Bool, true, false, bytes_eq, if◌then◌else◌, is_none, ℤ}
use Rattle.std.specs.List.{AllByRecursion, list_any}
use Rattle.std.specs.Option.{option_or}
use Rattle.std.proofs.Common.{ap, sym, ◌∙◌, append_assoc, true≢false}
use Rattle.vl_size.specs.declared.decl.Decl.{Decl}
use Rattle.vl_mean.specs.declared.driver.Driver.{Driver}
use Rattle.vl_mean.specs.declared.driver.DriverKind.{DriverKind}
use Rattle.vl_mean.specs.declared.driver.DriverKind.TheVariants as k
use Rattle.vl_mean.specs.declared.driver.Start.{Start}
use Rattle.vl_mean.specs.Cells.{cells}
use Rattle.vl_mean.specs.FlatLaw.{IsKept, IsMemory, flat_scopes}
use Rattle.vl_mean.specs.FlatParts.{driver_part, parts_of, start_part}
use Rattle.vl_mean.specs.Parts.{Part, declares}
use Rattle.vl_mean.specs.Scopes.{Scope, is_clock_class}
use Rattle.vl_lower_spec.specs.Maps.{AreEntriesOf, as_vectors, is_split, is_split_at, listed, listed_in, listed_of}
use Rattle.wn_net.specs.declared.names.NetName.{NetName}
use Rattle.wn_net.specs.declared.names.Names.{Names}
use Rattle.rvfi_port.specs.declared.field.Field.{Field}
use Rattle.rvfi_port.specs.declared.port.Wants.{Wants}
use Rattle.rvfi_port.specs.declared.fault.PortFault.TheVariants as fault
use Rattle.rvfi_port.specs.Fields.{field_name, wanted_fields}
use Rattle.rvfi_port.specs.Outputs.{first_refused, judged, output_of, refusal, wanted_width}
use Rattle.rvf_load.specs.Ports.{first_refusal, output_width, port_refusal, width_refusal}

-- ---- the entries of a net's names by the declarations that they are of

-- the width of the first of these that is an output with the name
abbrev listed_width : List ℕ → List Decl → Option ℕ
listed_width name [] = None
listed_width name (d ∷ ds) = if d.output && bytes_eq d.name name then Some d.width else listed_width name ds

module _ (channels : ℕ) (field : Field) where
  abbrev is_entry : NetName → Bool
  is_entry n = n.output && bytes_eq n.text (field_name field)

  one_entry : (b : Bool) (d : Decl) (x : NetName) (ds : List Decl) (xs : List NetName) → x.width ≡ d.width
      → judged channels field (find is_entry xs) ≡ width_refusal channels field (listed_width (field_name field) ds)
      → judged channels field (if b then Some x else find is_entry xs)
      ≡ width_refusal channels field (if b then Some d.width else listed_width (field_name field) ds)
  one_entry true d x ds xs w rest =
      ap (λ (n : ℕ). if n == wanted_width channels field then None
      else Some (fault.Width field n (wanted_width channels field))) w
  one_entry false d x ds xs w rest = rest

  entries_judged : (ds : List Decl) (xs : List NetName) → AreEntriesOf ds xs
      → judged channels field (find is_entry xs) ≡ width_refusal channels field (listed_width (field_name field) ds)
  entries_judged [] [] h = refl
  entries_judged [] (x ∷ xs) h = absurd h
  entries_judged (d ∷ ds) [] h = absurd h
  entries_judged (d ∷ ds) (x ∷ xs) h =
      let b : Bool = d.output && bytes_eq d.name (field_name field) in
      let same : is_entry x ≡ b = λ i. h.0.output i && bytes_eq (h.0.text i) (field_name field) in
      ap (λ c. judged channels field (if c then Some x else find is_entry xs)) same
      ∙ one_entry b d x ds xs h.0.width (entries_judged ds xs h.1)

-- ---- the declarations that are listed by those of the design

-- words of a memory are no outputs
words_pass : (name : List ℕ) (d : Decl) (texts : List (List ℕ)) (more : List Decl) → d.output ≡ false
    → listed_width name (as_vectors d texts ++ more) ≡ listed_width name more
words_pass name d [] more e = refl
words_pass name d (text ∷ texts) more e =
    ap (λ b. if b && bytes_eq text name then Some d.width else listed_width name (as_vectors d texts ++ more)) e
    ∙ words_pass name d texts more e

memory_output : (d : Decl) (words : Option (ℤ × ℤ)) → is_none words ≡ false → IsMemory words d → d.output ≡ false
memory_output d None e h = absurd (true≢false e)
memory_output d (Some bounds) e h = h.3

not_none : (a b : Bool) → (not a && b) ≡ true → a ≡ false
not_none true b e = absurd (true≢false (sym e))
not_none false b e = refl

by_split : (whole : List Part) (name : List ℕ) (d : Decl) (more : List Decl) (b : Bool)
    → (b ≡ true → d.output ≡ false)
    → listed_width name ((if b then as_vectors d (cells d) else d ∷ []) ++ more) ≡ listed_width name (d ∷ more)
by_split whole name d more true out =
    words_pass name d (cells d) more (out refl)
    ∙ ap (λ b. if b && bytes_eq d.name name then Some d.width else listed_width name more) (sym (out refl))
by_split whole name d more false out = refl

split_output : (whole : List Part) (d : Decl) → IsKept d → is_split whole d ≡ true → d.output ≡ false
split_output whole d kept e =
    memory_output d d.words (not_none (is_none d.words) (list_any (is_split_at whole d) (cells d)) e) kept.memory

by_clock : (name : List ℕ) (d : Decl) (ds here more : List Decl) (b : Bool)
    → listed_width name (here ++ more) ≡ listed_width name (d ∷ more)
    → listed_width name more ≡ output_width name ds
    → listed_width name (if b then more else here ++ more)
    ≡ (if not b && (d.output && bytes_eq d.name name) then Some d.width else output_width name ds)
by_clock name d ds here more true split rest = rest
by_clock name d ds here more false split rest =
    split ∙ ap (λ o. if d.output && bytes_eq d.name name then Some d.width else o) rest

module _ (whole : List Part) (name : List ℕ) where
  declared_listed : (ds : List Decl) (ps : List Part) → AllByRecursion IsKept ds → listed_in whole ps ≡ []
      → listed_width name (listed_in whole (map (λ d. declares d) ds ++ ps)) ≡ output_width name ds
  declared_listed [] ps kept none = ap (listed_width name) none
  declared_listed (d ∷ ds) ps kept none =
      let more : List Decl = listed_in whole (map (λ d. declares d) ds ++ ps) in
      by_clock name d ds (listed_of whole d) more (is_clock_class d.class)
      (by_split whole name d more (is_split whole d) (split_output whole d kept.0))
      (declared_listed ds ps kept.1 none)

  driver_unlisted : (ss : List Scope) (what : DriverKind) (ps : List Part)
      → listed_in whole (driver_part ss what ∷ ps) ≡ listed_in whole ps
  driver_unlisted ss (k.Assign l e) ps = refl
  driver_unlisted ss (k.Comb s) ps = refl
  driver_unlisted ss (k.Clocked s) ps = refl

  none_listed : (ss : List Scope) (drivers : List Driver) (xs : List Start)
      → listed_in whole (map (λ (x : Driver). driver_part ss x.what) drivers ++ map (start_part ss) xs) ≡ []
  none_listed ss [] [] = refl
  none_listed ss [] (x ∷ xs) = none_listed ss [] xs
  none_listed ss (d ∷ drivers) xs =
      driver_unlisted ss d.what (map (λ (x : Driver). driver_part ss x.what) drivers ++ map (start_part ss) xs)
      ∙ none_listed ss drivers xs

module _ (ds : List Decl) (drivers : List Driver) (firsts : List Start) (kept : AllByRecursion IsKept ds)
    (names : Names) (named : AreEntriesOf (listed (parts_of ds drivers firsts)) names.list) (channels : ℕ) where
  same_first : (fields : List Field) → first_refused names channels fields ≡ first_refusal ds channels fields
  same_first [] = refl
  same_first (field ∷ fields) =
      let whole = parts_of ds drivers firsts in
      let ss = flat_scopes ds in
      let others : List Part = map (λ (x : Driver). driver_part ss x.what) drivers ++ map (start_part ss) firsts in
      let one : judged channels field (output_of names field)
      ≡ width_refusal channels field (output_width (field_name field) ds) =
      entries_judged channels field (listed whole) names.list named
      ∙ ap (λ ps. width_refusal channels field (listed_width (field_name field) (listed_in whole ps)))
      (append_assoc (map (λ d. declares d) ds) (map (λ (x : Driver). driver_part ss x.what) drivers)
      (map (start_part ss) firsts))
      ∙ ap (width_refusal channels field) (declared_listed whole (field_name field) ds others kept
      (none_listed whole (field_name field) ss drivers firsts)) in
      let rest = same_first fields in
      λ i. option_or (one i) (rest i)

  -- by the declared outputs
  pub by_outputs : (wants : Wants) → refusal names channels wants ≡ port_refusal ds channels wants
  by_outputs wants =
      ap (λ o. option_or o (if wants.dmem && not wants.aligned then Some fault.NeedsAligned else None))
      (same_first (wanted_fields wants))
