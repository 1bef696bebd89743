-- What holds of the definitions of this crate themselves.
use Rattle.std.specs.Prelude.{◌≡◌, ◌≤◌, List, Option}
use Rattle.std.specs.List.{AllByRecursion}
use Rattle.rt_bounds.specs.declared.longest.Longest.{Longest}
use Rattle.rt_image_times.specs.Response.{IsResponse}
use Rattle.rt_image_times.specs.declared.load.Load.{Load}
use Rattle.rt_image_times.specs.declared.response.Response.{Response}

-- where requests are apart, a priority has one response time, or one reason why there is none
abbrev pub OneResponseTime : Type 0
OneResponseTime =
    (all : List Load) (wait : Option Longest) → AllByRecursion (λ load. 1 ≤ load.every) all
    → (one other : Response) → IsResponse all wait one → IsResponse all wait other → one ≡ other
