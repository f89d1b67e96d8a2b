-- Maps with the numbers of cycles of a net: what the node tells of them, and what is assumed.
use Rattle.std.specs.Prelude.{◌≡◌, refl, ℕ, ◌+◌, ◌<◌, ◌≤◌, Bool, true, false, not, List, length}
use Rattle.std.proofs.Common.{ap, sym, ◌∙◌, arith, subst}
use Rattle.fv_bits.specs.Bits.{bit}
use Rattle.vl_size.specs.Size.{Values}
use Rattle.vl_mean.specs.Parts.{Part}
use Rattle.vl_mean.specs.Runs.{Agrees, Each, Holds, PartAssumes}
use Rattle.wn_net.specs.declared.names.Names.{Names}
use Rattle.wn_net.specs.Value.{Given}
use Rattle.wn_net.specs.Net.{Netlist, value_at}
use Rattle.wn_net.specs.Given.{IsGiven}
use Rattle.wn_run.specs.Runs.{IsMet}
use Rattle.vl_lower_spec.specs.Maps.{given_of, map_of}
use Rattle.ck_design.specs.Retirements.{values_at}
use Rattle.ck_induct.specs.Laws.{TellsLack}
use Rattle.ck_induct.proofs.Lists.{each_at}

is_false : (b : Bool) (n : ℕ) → n ≡ bit (not b) → (n ≡ 0 → ⊥) → b ≡ false
is_false true n e h = absurd (h e)
is_false false n e h = refl

is_other : (b : Bool) (n : ℕ) → n ≡ bit (not b) → b ≡ false → n ≡ 0 → ⊥
is_other true n e f z = cc
is_other false n e f z = absurd (omega (arith, e, z))

is_true : (b : Bool) (n : ℕ) → n ≡ bit (not b) → n ≡ 0 → b ≡ true
is_true true n e z = refl
is_true false n e z = absurd (omega (arith, e, z))

is_none : (b : Bool) (n : ℕ) → n ≡ bit (not b) → b ≡ true → n ≡ 0
is_none true n e f = e
is_none false n e f = cc

module _ (ps : List Part) (net : Netlist) (names : Names) (has : Values → Bool) (bad : ℕ)
    (t : TellsLack ps net names has bad) (cycle : ℕ → Given) (d : ℕ) (run : List Values)
    (given : (j : ℕ) → IsGiven net (cycle j)) (long : length run ≡ d + 1) (holds : Each (Holds ps) run)
    (is : (j : ℕ) → j ≤ d → cycle j ≡ given_of names (values_at run j)) where
  pub within : (j : ℕ) → j ≤ d → j < length run
  within j le = omega (arith, long, le)

  holds_at : (j : ℕ) → j ≤ d → Holds ps (values_at run j)
  holds_at j le = each_at (Holds ps) run j (within j le) holds

  shown : (j : ℕ) → j ≤ d → value_at net (cycle j) bad ≡ bit (not (has (values_at run j)))
  shown j le =
      let v = values_at run j in
      let agree = subst (λ (g : Given). Agrees ps (map_of net names g) v) (sym (is j le))
      (t.lowered.whole v (holds_at j le)) in
      t.tells (cycle j) (given j) ∙ ap (λ b. bit (not b)) (t.alike (map_of net names (cycle j)) v agree)

  pub lacks : (j : ℕ) → j ≤ d → (value_at net (cycle j) bad ≡ 0 → ⊥) → has (values_at run j) ≡ false
  lacks j le h = is_false (has (values_at run j)) (value_at net (cycle j) bad) (shown j le) h

  pub lacked : (j : ℕ) → j ≤ d → has (values_at run j) ≡ false → value_at net (cycle j) bad ≡ 0 → ⊥
  lacked j le h z = is_other (has (values_at run j)) (value_at net (cycle j) bad) (shown j le) h z

  pub keeps : (j : ℕ) → j ≤ d → value_at net (cycle j) bad ≡ 0 → has (values_at run j) ≡ true
  keeps j le z = is_true (has (values_at run j)) (value_at net (cycle j) bad) (shown j le) z

  pub kept : (j : ℕ) → j ≤ d → has (values_at run j) ≡ true → value_at net (cycle j) bad ≡ 0
  kept j le h = is_none (has (values_at run j)) (value_at net (cycle j) bad) (shown j le) h

  pub met : (j : ℕ) → j ≤ d → Each (PartAssumes (values_at run j)) ps → IsMet net (cycle j)
  met j le a =
      subst (λ (g : Given). IsMet net g) (sym (is j le)) ((t.lowered.assumes (values_at run j) (holds_at j le)).0 a)

  pub assumed : (j : ℕ) → j ≤ d → IsMet net (cycle j) → Each (PartAssumes (values_at run j)) ps
  assumed j le m =
      (t.lowered.assumes (values_at run j) (holds_at j le)).1 (subst (λ (g : Given). IsMet net g) (is j le) m)
