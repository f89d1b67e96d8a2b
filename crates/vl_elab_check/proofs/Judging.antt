-- The whole walk, and why modules are no design.
use Rattle.std.specs.Prelude.{◌≡◌, refl, ℕ, ◌-◌, List, [], length, Bool, true, false, is_none, is_some}
use Rattle.std.specs.Prelude.{Option, Some, None, if◌then◌else◌}
use Rattle.std.proofs.Common.{ap, sym, ◌∙◌, true≢false}
use Rattle.vl_tree.specs.declared.source.Module.{Module}
use Rattle.vl_tree.specs.Item.{items}
use Rattle.vl_mean.specs.Parts.{design}
use Rattle.vl_mean.specs.Walk.{module_named, module_place, module_walk, with_module, items_walk}
use Rattle.vl_elab_spec.specs.declared.elab_fault.ElabFault.{ElabFault}
use Rattle.vl_elab_spec.specs.declared.elab_fault.ElabFault.TheVariants as f
use Rattle.vl_elab_spec.specs.Items.{is_valued}
use Rattle.vl_elab_spec.specs.Refused.{first_refused, judged_walk, modules_twice, or_later, refusal, refused_walk}
use Rattle.vl_elab_spec.specs.Refused.{state_bits}
use Rattle.vl_elab_spec.specs.Refused.{too_many_bits}
use Rattle.vl_elab_spec.specs.declared.totals.Totals as kept
use Rattle.vl_elab_spec.specs.Walked.{AreWalked}
use Rattle.vl_elab_spec.specs.Within.{behind_head, head_steps}
use Rattle.vl_elab_spec.proofs.Behind.{WalkedFrom, goes_on, stops}
use Rattle.vl_elab_spec.proofs.Unfolded.{named_is, one_unfolded}
use Rattle.vl_elab_check.specs.Judged.{nothing, top_use, top_steps, refused_before_bits, fault_of}

-- ---- the steps from the top module on

walk_is : (ms : List Module) (top : List ℕ) (m : Module) → module_named ms top ≡ Some m
    → top_steps (length ms - 1) ms m ≡ judged_walk ms top
walk_is ms top m e =
    one_unfolded is_valued ms (length ms) m top_use [] [] [] (named_is ms top m e).some
    ∙ ap (λ o. with_module o (λ m. module_walk is_valued (length ms) ms m top_use [] [] [])) (sym e)

-- its head is refused, or isn't
pub head_stops : (ms : List Module) (n : ℕ) (m : Module) (new : kept.Totals) (g : Option ElabFault) → is_some g ≡ true
    → AreWalked ms nothing new (head_steps (module_place m top_use [] []) m top_use) g
    → g ≡ first_refused ms nothing (top_steps n ms m)
head_stops ms n m new g e h =
    let at = module_place m top_use [] [] in
    (stops ms nothing new (head_steps at m top_use)
    (items_walk is_valued ms (module_walk is_valued n ms) (items m.items) (behind_head at m) 1) g e h).fault

pub head_passes : (ms : List Module) (n : ℕ) (m : Module) (between new : kept.Totals) (h g : Option ElabFault)
    → is_some h ≡ false → AreWalked ms nothing between (head_steps (module_place m top_use [] []) m top_use) h
    → WalkedFrom ms between new
    (items_walk is_valued ms (module_walk is_valued n ms) (items m.items) (behind_head (module_place m top_use [] []) m) 1) g
    → g ≡ first_refused ms nothing (top_steps n ms m)
head_passes ms n m between new h g e w k =
    let at = module_place m top_use [] [] in
    (goes_on ms nothing between new (head_steps at m top_use)
    (items_walk is_valued ms (module_walk is_valued n ms) (items m.items) (behind_head at m) 1) h g e w k).fault

-- ---- the whole

pub twice_first : (g h : Option ElabFault) → is_some g ≡ true → g ≡ or_later g h
twice_first None h e = absurd (true≢false (sym e))
twice_first (Some g) h e = refl

pub twice_none : (g h : Option ElabFault) → is_some g ≡ false → h ≡ or_later g h
twice_none None h e = refl
twice_none (Some g) h e = absurd (true≢false e)

pub none_named : (ms : List Module) (top : List ℕ) → module_named ms top ≡ None
    → Some (f.NoModule top) ≡ fault_of ms top
none_named ms top e =
    ap (λ o. if is_none o then Some (f.NoModule top) else refused_before_bits ms top) (sym e)

pub some_named : (ms : List Module) (top : List ℕ) (m : Module) → module_named ms top ≡ Some m
    → or_later (modules_twice [] ms) (first_refused ms nothing (top_steps (length ms - 1) ms m)) ≡ fault_of ms top
some_named ms top m e =
    ap (λ xs. or_later (modules_twice [] ms) (first_refused ms nothing xs)) (walk_is ms top m e)
    ∙ ap (λ o. if is_none o then Some (f.NoModule top) else refused_before_bits ms top) (sym e)

later_later : (g h k : Option ElabFault) → or_later g (or_later h k) ≡ or_later (or_later g h) k
later_later None h k = refl
later_later (Some g) h k = refl

-- the bits of registers come last
pub bits_last : (ms : List Module) (top : List ℕ) → refusal ms top
    ≡ or_later (fault_of ms top) (let ps = design ms top in too_many_bits (state_bits ps ps))
bits_last ms top = by (is_none (module_named ms top))
  where
    by : (b : Bool) → (if b then Some (f.NoModule top) else refused_walk ms top)
        ≡ or_later (if b then Some (f.NoModule top) else refused_before_bits ms top)
        (let ps = design ms top in too_many_bits (state_bits ps ps))
    by true = refl
    by false =
        later_later (modules_twice [] ms) (first_refused ms nothing (judged_walk ms top))
        (let ps = design ms top in too_many_bits (state_bits ps ps))
