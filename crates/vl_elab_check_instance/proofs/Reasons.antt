-- Why an instance is refused by itself.
use Rattle.std.specs.Prelude.{◌≡◌, refl, ℕ, List, Bool, true, false, ◌||◌, not, None}
use Rattle.std.proofs.Common.{ap, sym, ◌∙◌}
use Rattle.fv_text.specs.declared.pos.Pos.{Pos}
use Rattle.vl_tree.specs.declared.part.Instance.{Instance}
use Rattle.vl_elab_spec.specs.Refused.{lowest}
use Rattle.vl_elab_check_instance.specs.Instances.{refused_by}

pub none_refused : (a b c d : Bool) (p : Pos) (x : Instance) (path : List (List ℕ)) → d ≡ not (a || (b || c))
    → d ≡ true → None ≡ lowest (refused_by a b c p x path)
none_refused false false false d p x path e h = refl
none_refused false false true d p x path e h = let no : true ≡ false = sym h ∙ e in cc
none_refused false true c d p x path e h = let no : true ≡ false = sym h ∙ e in cc
none_refused true b c d p x path e h = let no : true ≡ false = sym h ∙ e in cc

pub same_reasons : (a b c k l m : Bool) (p : Pos) (x : Instance) (path modules : List (List ℕ)) → a ≡ k → b ≡ l
    → c ≡ m → path ≡ modules → lowest (refused_by a b c p x path) ≡ lowest (refused_by k l m p x modules)
same_reasons a b c k l m p x path modules d e f g = λ i. lowest (refused_by (d i) (e i) (f i) p x (g i))
