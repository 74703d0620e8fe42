-- One row: a request row of that key, and its H.
use Prim.Native.Nat.{ℕ}
use mathlib.Core.Path.{◌≡◌, refl, sym, ◌∙◌}
use mathlib.Core.Bool.{Bool, true, false, cond, beq, ◌&&◌}
use lib.Dec.{eqb}
use Rattle.plain.specs.Address.{Address}
use Rattle.plain.specs.Answers.{request_for}
use Rattle.lemmas.proofs.Choice.{true_false}
use Rattle.row.specs.Meaning.{flag, instance_of, request_of}
use Rattle.keyed.specs.Look.{request_here}
use Rattle.keyed.proofs.Laws.{request_sort, sort_here}
use Rattle.row.specs.declared.InstanceRow.{InstanceRow}
use Rattle.partner.specs.Partner.{partner_for, partner_here}

module _ (r : InstanceRow) (t instance : ℕ) (dodagid : Address) (h : Bool) where
  pub partner_not : request_here t instance dodagid (instance_of r) ≡ false → partner_here t instance dodagid h (instance_of r) ≡ false
  partner_not e =
      sort_here request_sort (partner_for t instance dodagid h) r
      ∙ both (eqb r.kind 1) (request_for t instance dodagid (request_of r)) (sym (sort_here request_sort (request_for t instance dodagid) r) ∙ e)
    where
      both : (k x : Bool) → cond k x false ≡ false → cond k (x && beq (request_of r).h h) false ≡ false
      both true x e = rw e
      both false x e = refl

  pub partner_is : request_here t instance dodagid (instance_of r) ≡ true → partner_here t instance dodagid h (instance_of r) ≡ beq (flag r.h) h
  unfolding request_of
  partner_is e =
      sort_here request_sort (partner_for t instance dodagid h) r
      ∙ both (eqb r.kind 1) (request_for t instance dodagid (request_of r)) (sym (sort_here request_sort (request_for t instance dodagid) r) ∙ e)
    where
      both : (k x : Bool) → cond k x false ≡ true → cond k (x && beq (flag r.h) h) false ≡ beq (flag r.h) h
      both true x e = rw e
      both false x e = true_false (sym e)
