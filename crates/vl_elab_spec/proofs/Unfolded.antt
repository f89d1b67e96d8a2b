-- Modules by their names, and their steps where they are unfolded.
use Rattle.std.specs.Prelude.{◌≡◌, refl, ℕ, suc, ◌-◌, ◌<◌, ◌≤◌, max, List, [], ◌∷◌, ◌++◌, length, All, codes}
use Rattle.std.specs.Prelude.{Bool, true, false, Option, Some, None, bytes_eq, if◌then◌else◌}
use Rattle.std.proofs.Common.{ap, sym, ◌∙◌, arith, subst}
use Rattle.std.proofs.lemmas.List.{append_assoc}
use Rattle.std.proofs.lemmas.Slice.Eq.{bytes_eq-Decides}
use Rattle.vl_tree.specs.declared.part.Instance.{Instance}
use Rattle.vl_tree.specs.declared.source.Module.{Module}
use Rattle.vl_tree.specs.Item.{items, items_depth}
use Rattle.vl_tree.specs.WellFormed.{IsModule}
use Rattle.vl_mean.specs.Walk.{Place, Step, Unfolding, Use, Valued, module_named, with_module, module_place}
use Rattle.vl_mean.specs.Walk.{module_parameters, header_steps, port_steps, items_walk, parameter_names}
use Rattle.vl_mean.specs.Walk.{written_ports, with_earlier}
use Rattle.vl_mean.specs.Walk.{instance_steps, module_walk, use_of}
use Rattle.vl_elab_spec.specs.Within.{behind_head, front_steps, opened_walk, deepest}

-- ---- the module of a name

-- one of the modules, and its name is this
pub record IsNamed (ms : List Module) (text : List ℕ) (m : Module) : Type 0 where
  pub name : m.name ≡ text
  pub formed : All IsModule ms → IsModule m
  pub falls : items_depth (items m.items) ≤ deepest ms
  pub some : 0 < length ms

named_as : (ms : List Module) (text : List ℕ) (m : Module) → module_named ms text ≡ Some m → m.name ≡ text
named_as [] text m e = cc
named_as (x ∷ ms) text m e = by (bytes_eq text x.name) refl (named_as ms text m) e
  where
    by : (b : Bool) → bytes_eq text x.name ≡ b → (module_named ms text ≡ Some m → m.name ≡ text)
        → (if b then Some x else module_named ms text) ≡ Some m → m.name ≡ text
    by true k next h =
        let same : x ≡ m = cc in
        sym (ap (λ (y : Module). y.name) same) ∙ sym ((bytes_eq-Decides text x.name).0 k)
    by false k next h = next h

-- what holds of each of them holds of it
named_holds : (P : Module → Type 0) (ms : List Module) (text : List ℕ) (m : Module) → All P ms
    → module_named ms text ≡ Some m → P m
named_holds P [] text m h e = cc
named_holds P (x ∷ ms) text m h e =
    by (bytes_eq text x.name) (named_holds P ms text m (λ k d l. h (suc k) d (omega arith))) e
  where
    by : (b : Bool) → (module_named ms text ≡ Some m → P m) → (if b then Some x else module_named ms text) ≡ Some m
        → P m
    by true next k = let same : x ≡ m = cc in subst P same (h 0 x (omega arith))
    by false next k = next k

named_falls : (ms : List Module) (text : List ℕ) (m : Module) → module_named ms text ≡ Some m
    → items_depth (items m.items) ≤ deepest ms
named_falls [] text m e = cc
named_falls (x ∷ ms) text m e = by (bytes_eq text x.name) (named_falls ms text m) e
  where
    by : (b : Bool) → (module_named ms text ≡ Some m → items_depth (items m.items) ≤ deepest ms)
        → (if b then Some x else module_named ms text) ≡ Some m
        → items_depth (items m.items) ≤ max (items_depth (items x.items)) (deepest ms)
    by true next h =
        let same : items_depth (items x.items) ≡ items_depth (items m.items) =
        ap (λ (y : Module). items_depth (items y.items)) (let e : x ≡ m = cc in e) in
        omega arith
    by false next h = let deep : items_depth (items m.items) ≤ deepest ms = next h in omega arith

some_modules : (ms : List Module) (text : List ℕ) (m : Module) → module_named ms text ≡ Some m → 0 < length ms
some_modules [] text m e = cc
some_modules (x ∷ ms) text m e = omega arith

pub named_is : (ms : List Module) (text : List ℕ) (m : Module) → module_named ms text ≡ Some m → IsNamed ms text m
named_is ms text m e = record {
  name = named_as ms text m e;
  formed = λ h. named_holds IsModule ms text m h e;
  falls = named_falls ms text m e;
  some = some_modules ms text m e;
}

-- ---- its steps

module _ (valued : Valued) (ms : List Module) where
  pub none_unfolded : (n : ℕ) (m : Module) (u : Use) (path : List ℕ) (modules : List (List ℕ)) (front : List Step)
      → n ≡ 0 → module_walk valued n ms m u path modules front ≡ []
  none_unfolded n m u path modules front e = ap (λ k. module_walk valued k ms m u path modules front) e

  pub next_unfolded : (n : ℕ) (m : Module) (u : Use) (path : List ℕ) (modules : List (List ℕ)) (front : List Step)
      → front ++ opened_walk valued ms (module_walk valued n ms) (module_place m u path modules) m u
      ≡ module_walk valued (suc n) ms m u path modules front
  next_unfolded n m u path modules front =
      let at : Place = module_place m u path modules in
      let parameters : List (List ℕ) = parameter_names (module_parameters m) in
      let heads : List Step = header_steps at (module_parameters m) in
      let ports : List Step = port_steps (with_earlier at parameters) u None (written_ports m.ports) in
      let rest : List Step = items_walk valued ms (module_walk valued n ms) (items m.items) (behind_head at m) 1 in
      sym (append_assoc front (heads ++ ports) rest) ∙ ap (λ xs. xs ++ rest) (sym (append_assoc front heads ports))

  pub one_unfolded : (n : ℕ) (m : Module) (u : Use) (path : List ℕ) (modules : List (List ℕ)) (front : List Step)
      → 0 < n
      → front ++ opened_walk valued ms (module_walk valued (n - 1) ms) (module_place m u path modules) m u
      ≡ module_walk valued n ms m u path modules front
  one_unfolded n m u path modules front positive =
      next_unfolded (n - 1) m u path modules front ∙ ap (λ k. module_walk valued k ms m u path modules front) (sym same)
    where
      same : n ≡ suc (n - 1)
      same = omega (arith, positive)

  pub instance_found : (inner : Unfolding) (at : Place) (x : Instance) (o : Option Module)
      → module_named ms x.definition ≡ o
      → with_module o (λ m. inner m (use_of (valued at) at.scopes x) (at.path ++ x.name ++ codes ".") at.modules
      (front_steps at m (use_of (valued at) at.scopes x) (at.path ++ x.name ++ codes ".") x))
      ≡ instance_steps valued ms inner at x
  instance_found inner at x o e =
      ap (λ o. with_module o (λ m. inner m (use_of (valued at) at.scopes x) (at.path ++ x.name ++ codes ".") at.modules
      (front_steps at m (use_of (valued at) at.scopes x) (at.path ++ x.name ++ codes ".") x))) (sym e)
