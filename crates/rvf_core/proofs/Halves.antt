-- A file and a line behind it: what came through of them, and what is left where not all did.
use Rattle.std.proofs.Common.{◌≡◌, ℕ, List, [], ◌∷◌, ◌++◌, refl, sym, ap, ◌∙◌}
use Rattle.std.proofs.lemmas.List.{append-nil, append_cancel_left}
use Rattle.fv_base.specs.declared.event.Event.{Event}
use Rattle.fv_base.specs.declared.event.Event.TheVariants.{Put, Wrote}
use Rattle.rvf_report.specs.Outcome.{Outside, Delivers, Pass, puts_of, writes_of}
use Rattle.rvf_report.specs.declared.delivery.Delivery.{Delivery}
use Rattle.rvf_report.specs.declared.delivery.Delivery.TheVariants.{File, Line}
use Rattle.rvf_core.proofs.Quiet.{never_empty, same_tail}

-- of a file and a line, without the last of them, no line was put
pub front_of_two : (done : List Delivery) (next : Delivery) (rest : List Delivery) (name bytes line : List ℕ)
    → done ++ next ∷ rest ≡ File name bytes ∷ (Line line ∷ []) → puts_of done ≡ []
front_of_two [] next rest name bytes line e = refl
front_of_two (d ∷ []) next rest name bytes line e = let is : d ≡ File name bytes = cc in ap (λ x. puts_of (x ∷ [])) is
front_of_two (d ∷ (f ∷ done)) next rest name bytes line e =
    absurd (never_empty done next rest (same_tail f (Line line) (done ++ next ∷ rest) []
    (same_tail d (File name bytes) (f ∷ (done ++ next ∷ rest)) (Line line ∷ []) e)))

some_event : (x : Event) → ◌≡◌ {A = List Event} [] (x ∷ []) → ⊥
some_event x e = cc

module _ (before now : Outside) (name bytes line : List ℕ)
    (d : Delivers before now (File name bytes ∷ (Line line ∷ []))) where
  -- both came through, so a line was put
  pub some_put : (done : List Delivery) → Pass before now done → puts_of done ≡ [] → ⊥
  some_put done p none =
      some_event (Put line) (sym none ∙ append_cancel_left before.taken (puts_of done) (Put line ∷ [])
      (sym p.taken ∙ d.pass.taken))

  -- and a file was written
  pub some_written : (done : List Delivery) → Pass before now done → writes_of done ≡ [] → ⊥
  some_written done p none =
      some_event (Wrote name bytes)
      (sym none ∙ append_cancel_left before.written (writes_of done) (Wrote name bytes ∷ [])
      (sym p.written ∙ d.pass.written))

  pub nothing_written : now.written ≡ before.written → ⊥
  nothing_written same =
      some_event (Wrote name bytes)
      (append_cancel_left before.written [] (Wrote name bytes ∷ [])
      (append-nil before.written ∙ sym same ∙ d.pass.written))
