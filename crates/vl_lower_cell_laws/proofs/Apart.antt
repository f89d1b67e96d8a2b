-- A name that isn't mixed is assigned in one way only.
use Rattle.std.specs.Prelude.{◌≡◌, ℕ, suc, zero, List, [], ◌∷◌, Bool, true, false, ◌&&◌, ◌||◌, None, Some, is_none, slice_get}
use Rattle.std.proofs.Common.{ap, sym, ◌∙◌, subst, true≢false}
use Rattle.std.proofs.lemmas.Option.{same_Some}
use Rattle.vl_tree.specs.declared.stmt.AssignKind.{AssignKind}
use Rattle.vl_tree.specs.Stmt.{Stmt}
use Rattle.vl_size.specs.declared.decl.Decl.{Decl}
use Rattle.vl_mean.specs.declared.driver.Driver.{Driver}
use Rattle.vl_mean.specs.declared.driver.DriverKind.TheVariants as k
use Rattle.vl_mean.specs.FlatLaw.{IsBlock}
use Rattle.vl_flow_spec.specs.Paths.{changes, is_blocking, is_nonblocking}
use Rattle.vl_flow_spec.specs.Reads.{IsCellOf}
use Rattle.vl_flow_spec.proofs.Bools.{and_both, none_of, or_left, or_right}
use Rattle.vl_flow_spec.specs.Refusals.{assigns_to, mixed, some_assigns, some_waits}
use Rattle.vl_flow_spec.proofs.AssignKinds.{block_named}
use Rattle.vl_flow_spec.proofs.Whole.{of_any_kind, place_there, unmixed}

some_of : (drivers : List Driver) (counts : AssignKind → Bool) (d : Decl) (j : ℕ) (x : Driver)
    → slice_get drivers j ≡ Some x → assigns_to counts x.what d ≡ true → some_assigns counts drivers d ≡ true
some_of [] counts d j x e h = absurd (true≢false (ap is_none e))
some_of (y ∷ ys) counts d zero x e h =
    or_left (assigns_to counts y.what d) (some_assigns counts ys d)
    (subst (λ z. assigns_to counts z.what d ≡ true) (sym (same_Some y x e)) h)
some_of (y ∷ ys) counts d (suc j) x e h =
    or_right (assigns_to counts y.what d) (some_assigns counts ys d) (some_of ys counts d j x e h)

-- where a clocked block assigns a bit now, it assigns it never for the block's end; a cell is one of one name
pub one_way : (ds : List Decl) → ((d e : Decl) (n : List ℕ) → IsCellOf ds d n → IsCellOf ds e n → d ≡ e)
    → (drivers : List Driver) → mixed ds drivers ≡ None → (j : ℕ) (x : Driver) (z : Stmt)
    → slice_get drivers j ≡ Some x → x.what ≡ k.Clocked z → IsBlock ds z → (n : List ℕ) (i : ℕ)
    → changes ds is_blocking z n i ≡ true → changes ds is_nonblocking z n i ≡ false
one_way ds alone drivers none j x z e what is n i now =
    none_of (changes ds is_nonblocking z n i) (λ later.
    let first = block_named ds is_blocking z is n i now in
    let second = block_named ds is_nonblocking z is n i later in
    let d = first.0.decl in
    let same : second.0.decl ≡ d = alone second.0.decl d n second.0.of first.0.of in
    let at_once : assigns_to is_blocking x.what d ≡ true = ap (λ y. assigns_to is_blocking y d) what ∙ first.1 in
    let waits : assigns_to is_nonblocking x.what d ≡ true =
    ap (λ y. assigns_to is_nonblocking y d) what
    ∙ subst (λ (c : Decl). assigns_to is_nonblocking (k.Clocked z) c ≡ true) same second.1 in
    let there = place_there drivers d j x e
    (of_any_kind x.what d (or_left (assigns_to is_blocking x.what d) (assigns_to is_nonblocking x.what d) at_once)) in
    sym (unmixed ds drivers none d first.0.of.declared there)
    ∙ or_left (some_assigns is_blocking drivers d && some_assigns is_nonblocking drivers d) (some_waits drivers d)
    (and_both (some_assigns is_blocking drivers d) (some_assigns is_nonblocking drivers d)
    (some_of drivers is_blocking d j x e at_once) (some_of drivers is_nonblocking d j x e waits)))
