-- A block that is opened.
use Rattle.std.specs.Prelude.{◌≡◌, ℕ, List, [], ◌∷◌, ◌++◌, drop, true, Option, None, Result, Ok, Err, OnOk}
use Rattle.std.proofs.Common.{ap, sym, ◌∙◌, subst}
use Rattle.vl_tree.specs.Expr.{Expr}
use Rattle.vl_tree.specs.Item.{Items}
use Rattle.vl_size.specs.declared.decl.Decl.{Decl}
use Rattle.vl_size.specs.Table.{AreDifferent, IsPlain}
use Rattle.vl_mean.specs.declared.const_number.Const.{Const}
use Rattle.vl_mean.specs.Constants.{Constants}
use Rattle.vl_mean.specs.Declarations.{declared, with_constants, with_items_parameters}
use Rattle.vl_mean.specs.Runs.{Each}
use Rattle.vl_mean.specs.Scopes.{Scope}
use Rattle.vl_elab_spec.specs.Meanings.{Names, constant}
use Rattle.vl_elab_scope.specs.Seen.{innermost, with_name}
use Rattle.vl_elab_draft.specs.Kept.{empty_scope}
use Rattle.vl_elab_const.specs.declared.given.Value.{Value}
use Rattle.vl_elab_const.specs.Numbers.{HaveNumbers}
use Rattle.vl_elab_const.specs.Openable.{Different, IsInRange, IsOpenable, constant_names, items_constants}
use Rattle.vl_elab_flatten.specs.Here.{block_constants, block_scope}
use Rattle.vl_elab_flatten.specs.Levels.{Adds, HasConstants, constants_level, hidden, with_decls}
use Rattle.vl_elab_flatten.proofs.Adding.{given_nothing}
use Rattle.vl_elab_flatten.proofs.Distinct.{names_with_items}
use Rattle.vl_elab_flatten.proofs.Numbered.{hidden_numbers, level_numbers}

module _ (ss : List Scope) (ns : List Names) (h : HaveNumbers ns ss) (path : List ℕ) (xs : Items)
    (can_open : IsOpenable (block_scope ss path xs)) where
  abbrev cs : Constants
  cs = block_constants ss xs

  -- its constants stand in it
  pub block_constants_are : (nothing : List ℕ → Option Value) → ((name : List ℕ) → nothing name ≡ None)
      → (text : List ℕ) (s t : Scope) (l : List Names) (ms : List Names) → text ≡ path → s ≡ empty_scope text
      → l ≡ [] ∷ ns
      → Adds nothing (λ os ss cs. with_items_parameters os ss cs xs) (items_constants xs) s l t ms
      → HasConstants path cs ns t ms
  block_constants_are nothing none text s t l ms e is at added =
      added [] ss path [] ns (given_nothing nothing none) h
      (subst Different (names_with_items [] ss [] xs) can_open.constants)
      (record { scope = is ∙ ap empty_scope e; numbers = at })

  module _ (t : Scope) (ms : List Names) (has : HasConstants path cs ns t ms) (decls : List Decl)
      (read : (ls : List Scope) → HaveNumbers ms ls → Each IsInRange (declared ls xs) → decls ≡ declared ls xs) where
    pub block_decls_are : decls ≡ (block_scope ss path xs).decls
    block_decls_are =
        read (with_constants cs ss)
        (subst (λ ls. HaveNumbers ls (with_constants cs ss)) (sym has.numbers) (level_numbers ns ss h cs))
        can_open.in_range

    pub block_different : AreDifferent (t.decls ++ decls)
    block_different =
        subst (λ u. AreDifferent (u.decls ++ decls)) (sym has.scope)
        (subst AreDifferent (sym block_decls_are) can_open.decls)

    pub block_plain : Each IsPlain decls
    block_plain = subst (Each IsPlain) (sym block_decls_are) can_open.plain

    pub block_in_range : Each IsInRange decls
    block_in_range = subst (Each IsInRange) (sym block_decls_are) can_open.in_range

    module _ (u : Scope) (filled : u ≡ with_decls t decls) (ks : List Names)
        (hides : ks ≡ hidden (innermost ms) decls ∷ drop 1 ms) where
      pub block_scope_is : u ≡ block_scope ss path xs
      block_scope_is = filled ∙ (λ i. with_decls (has.scope i) (block_decls_are i))

      levels : ks ≡ hidden (constants_level cs) (block_scope ss path xs).decls ∷ ns
      levels = hides ∙ (λ i. hidden (innermost (has.numbers i)) (block_decls_are i) ∷ drop 1 (has.numbers i))

      pub block_numbers : HaveNumbers ks (block_scope ss path xs ∷ ss)
      block_numbers =
          subst (λ ls. HaveNumbers ls (block_scope ss path xs ∷ ss)) (sym levels)
          (hidden_numbers ns ss h path (block_scope ss path xs).decls cs)

      pub block_beneath : drop 1 ks ≡ ns
      block_beneath = ap (drop 1) levels

-- ---- a turn

pub turn_numbers : (ss : List Scope) (ns ks : List Names) (text : List ℕ) (value : Const)
    → ks ≡ ((text, constant value true) ∷ []) ∷ ns → HaveNumbers ns ss
    → HaveNumbers ks (with_constants ((text, value) ∷ []) ss)
turn_numbers ss ns ks text value e h =
    subst (λ ls. HaveNumbers ls (with_constants ((text, value) ∷ []) ss)) (sym e)
    (level_numbers ns ss h ((text, value) ∷ []))

-- where it is opened
pub turns_numbered : {A E : Type 0} (result : Result A E) (ts ss : List Scope) (ns ks : List Names) (text : List ℕ)
    (value : Const) → OnOk result (ts ≡ with_constants ((text, value) ∷ []) ss)
    → OnOk result (ks ≡ ((text, constant value true) ∷ []) ∷ ns)
    → OnOk result (HaveNumbers ns ss → HaveNumbers ks ts)
turns_numbered (Ok x) ts ss ns ks text value e f = λ h.
    subst (HaveNumbers ks) (sym e) (turn_numbers ss ns ks text value f h)
turns_numbered (Err x) ts ss ns ks text value e f = tt
