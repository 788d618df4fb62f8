use Rattle.vms_values.proofs.Facade.{◌≡◌, ℕ, List, ◌++◌, codes, ap, ◌∙◌, append_assoc, signed_decimal, w128, to_z-of_z, wrote_as, line_end}
use Rattle.vms_values.proofs.Printers.{stays_is}
use Rattle.vms_values.proofs.shown.print_number.Goals as goal

-- the line, of three pieces after the path
pieced : (path a b d line e : List ℕ) → a ≡ path ++ codes " = " → e ≡ d → b ≡ a ++ e → line ≡ b ++ line_end → line ≡ path ++ (codes " = " ++ (d ++ line_end))
pieced path a b d line e f is g h =
    h ∙ ap (λ l. l ++ line_end) (g ∙ ap (λ l. l ++ e) f ∙ ap (λ l. (path ++ codes " = ") ++ l) is)
    ∙ append_assoc (path ++ codes " = ") d line_end ∙ append_assoc path (codes " = ") (d ++ line_end)

pub returns : goal.returns
returns g c =
    let line = pieced _ _ _ _ _ _ c.push.ensures (c.as_bytes.ensures.value ∙ c.spelled.ensures.text ∙ ap signed_decimal (to_z-of_z {w = w128} c.ranges.number)) c.push-2.ensures c.push-3.ensures in
    record { written = wrote_as _ _ _ (c.text.ensures ∙ line) c.write_all_of.ensures; line = stays_is _ _ _ line }
