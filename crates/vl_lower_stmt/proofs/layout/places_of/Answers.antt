use Rattle.std.proofs.Common.{◌≡◌, ◌+◌, ◌<◌, ◌≤◌, ap, sym, ◌∙◌, arith, suc, true≢false, length, slice_get, []}
use Rattle.std.proofs.Common.{◌∷◌, ◌++◌}
use Rattle.std.proofs.Common.{ℕ, List, Some, ◌⊎◌, inl, inr}
use Rattle.std.specs.Prelude.{is_none}
use Rattle.std.specs.Option.{option_copied}
use Rattle.std.proofs.lemmas.Bool.{cases_lt}
use Rattle.std.proofs.lemmas.Option.{same_Some}
use Rattle.vl_size.specs.declared.decl.Decl.{Decl}
use Rattle.vl_mean.specs.FlatLaw.{IsKept}
use Rattle.vl_flow_cells.specs.Numbered.{first_cell}
use Rattle.vl_flow_cells.proofs.Lists.{all_at, get_some, get_left, get_right, get_less}
use Rattle.vl_flow_cells.proofs.Numbers.{first_few, first_none, length_more, next_first}
use Rattle.vl_lower_expr.specs.declared.place.Place.{Place}
use Rattle.vl_lower_stmt.specs.Layout.{place_at}
use Rattle.vl_lower_stmt.proofs.layout.places_of.Goals as goal

-- one more place
places_more : (ds : List Decl) (xs : List Place) (x : Place) (index : ℕ) (d : Decl) → length xs ≡ index
    → slice_get ds index ≡ Some d → x ≡ place_at d (first_cell ds index)
    → ((i : ℕ) (e : Decl) → i < index → slice_get ds i ≡ Some e
    → slice_get xs i ≡ Some (place_at e (first_cell ds i)))
    → (i : ℕ) (e : Decl) → i < index + 1 → slice_get ds i ≡ Some e
    → slice_get (xs ++ x ∷ []) i ≡ Some (place_at e (first_cell ds i))
places_more ds xs x index d size here is were i e less at = by (cases_lt i index)
  where
    by : (i < index) ⊎ (index ≤ i) → slice_get (xs ++ x ∷ []) i ≡ Some (place_at e (first_cell ds i))
    by (inl l) = get_left xs (x ∷ []) i (place_at e (first_cell ds i)) (were i e l at)
    by (inr l) =
        let same : i ≡ index = omega (arith, less, l) in
        let last : i ≡ length xs + 0 = omega (arith, same, size) in
        let own : d ≡ e = same_Some d e (sym here ∙ ap (slice_get ds) (sym same) ∙ at) in
        get_right xs (x ∷ []) 0 i last ∙ ap Some is ∙ (λ j. Some (place_at (own j) (first_cell ds (sym same j))))

pub loop-index-init : goal.loop-index-init
loop-index-init c = record {
  size = ap length c.new-places.ensures;
  at = λ i d less e. absurd (omega (arith, less));
  next = sym (first_none c.args.decls.now);
}

pub unreachable-requires : goal.unreachable-requires
unreachable-requires c =
    let ds = c.args.decls.now in
    let less : c.loop-index.index < length ds = omega (arith, c.loop-index-test.true, c.len-index-end.ensures.value) in
    let r = get_some ds c.loop-index.index less in
    true≢false (ap is_none (sym (ap option_copied c.in-None.is) ∙ c.get.ensures ∙ r.1))

pub cell_count-requires : goal.cell_count-requires
cell_count-requires c =
    all_at IsKept c.args.decls.now c.loop-index.index c.in-Some.decl.now
    (sym c.get.ensures ∙ ap option_copied c.in-Some.is) c.requires.kept

pub overflow_add-next : goal.overflow_add-next
overflow_add-next c =
    let ds = c.args.decls.now in
    let i = c.loop-index.index in
    let at = sym c.get.ensures ∙ ap option_copied c.in-Some.is in
    let more = next_first ds i c.in-Some.decl.now at in
    let few = first_few ds (suc i) in
    omega (arith, c.loop-index.invariant.next, c.cell_count.ensures.value, more, few, c.requires.few)

pub loop-index-preserved : goal.loop-index-preserved
loop-index-preserved c =
    let ds = c.args.decls.now in
    let i = c.loop-index.index in
    let xs = c.loop-index.places in
    let d = c.in-Some.decl.now in
    let at = sym c.get.ensures ∙ ap option_copied c.in-Some.is in
    let more = next_first ds i d at in
    let x = c.place_at.result in
    let items : c.push.new.self ≡ xs ++ x ∷ [] = c.in_ok-push-in-Some.ensures.ok in
    let size = length_more xs x in
    let next : i + 1 ≡ suc i = omega arith in
    let is = c.place_at.ensures ∙ ap (place_at d) c.loop-index.invariant.next in
    record {
      size = ap length items ∙ size ∙ ap (λ n. n + 1) c.loop-index.invariant.size;
      at = λ j e less f.
          ap (λ ys. slice_get ys j) items
          ∙ places_more ds xs x i d c.loop-index.invariant.size at is c.loop-index.invariant.at j e less f;
      next = (λ j. c.loop-index.invariant.next j + c.cell_count.ensures.value j) ∙ sym more
          ∙ ap (first_cell ds) (sym next);
    }

pub returns : goal.returns
returns c =
    let ds = c.args.decls.now in
    let i = c.loop-index.index in
    let len = c.len-index-end.ensures in
    let all : length ds ≤ i = omega (arith, c.loop-index-test.false, len.value) in
    let none : i ≤ length ds = omega (arith, len.value) in
    record {
      each = c.loop-index.invariant.size ∙ omega (arith, all, none);
      at = λ j d e. c.loop-index.invariant.at j d (omega (arith, get_less ds j d e, all)) e;
      shaped = len.shaped;
      kept = c.requires.kept;
      different = len.different;
      apart = len.apart;
      few = omega (arith, c.requires.few);
    }
