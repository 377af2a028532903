mod DrawLaws
mod DealtLaws
mod MadePlaceLaws
mod LapLaws
mod CountLaws
mod SummaryLaws
mod MakeLaws
