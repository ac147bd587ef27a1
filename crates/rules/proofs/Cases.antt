-- The P table holds of the definitions, by computing, once; so its rows keep the promises, since the computed answers do.
-- Assumes nothing.
use mathlib.Core.Path.{◌≡◌, refl, subst}
use mathlib.Core.List.{List, [], ◌∷◌, map}
use lib.Count.{ones, ones_in}
use Rattle.rules.specs.Sets.{has, any, all, set_of, within, sum, least, tabulate}
use Rattle.rules.specs.Header.{permits}
use Rattle.rules.specs.Tries.{is_switch, choice, common, reaches, reach, tries, chooses}
use Rattle.rules.specs.Run.{wider, put, widest, arrives, near, dist_to, onward, met, mask_of, best}
use Rattle.rules.specs.Table.{house, kind, leads, switches, kind_at, far_of}
use Rattle.rules.specs.Print.{ascii, digit, digits, decimal, hex, spaced, shown, line}
use Rattle.rules.specs.Look.{pick, first, when, least_at, accepted, answered}
use Rattle.rules.specs.RunTable.{is_bad, is_entry_of, same_node, is_node, bad_length, bad_at, again, stands, attached, home}
use Rattle.rules.specs.RunPair.{words, distance, mask, tries_of, words_of, passes_of, mask_judgement, mask_answer, mask_memory, test_of, issue_judgement, issue_answer, issue_memory}
use Rattle.rules.specs.RunFields.{pair_line}
use Rattle.rules.specs.Cases.{lent, Asked, header, masks, test, printed, answer, Keeps, Case, cases}
use Rattle.rules.proofs.Kept.{issued-met, masked-met, tested-met}
use Rattle.rules.proofs.Doors.{printed-met}

pub cases-hold : map (λ c. answer c.asked) cases ≡ map (λ c. c.gives) cases
unfolding answer cases has any all set_of within sum least permits is_switch choice common reaches reach tries chooses wider put widest arrives near dist_to onward met mask_of best kind leads switches kind_at far_of ascii digit digits decimal hex spaced shown line pick first when least_at accepted answered tabulate is_bad is_entry_of same_node is_node bad_length bad_at again stands attached home words distance mask tries_of words_of passes_of mask_judgement mask_answer mask_memory test_of issue_judgement issue_answer issue_memory pair_line ones ones_in
cases-hold = refl

-- ---- the same rows as statements of the promises

keeps : (q : Asked) → Keeps q (answer q)
unfolding Keeps answer
keeps (header t a d) = issued-met house t a d lent
keeps (masks t a d) = masked-met house t a d lent
keeps (test t a d ws) = tested-met house t a d ws
keeps (printed t a d) = printed-met house t a d

unfoldable pub AllKept : List Case → Type 0
AllKept [] = Unit {0}
AllKept (c ∷ cs) = Keeps c.asked c.gives × AllKept cs

all-kept : (cs : List Case) → map (λ c. answer c.asked) cs ≡ map (λ c. c.gives) cs → AllKept cs
unfolding AllKept
all-kept [] e = tt
all-kept (c ∷ cs) e = (subst (Keeps c.asked) (cc) (keeps c.asked), all-kept cs cc)

pub cases-kept : AllKept cases
cases-kept = all-kept cases cases-hold
