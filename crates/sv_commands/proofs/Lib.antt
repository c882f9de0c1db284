mod Appended
mod Findings
mod OneByOne
mod StepLists
