mod SameCalls
mod SameSources
mod TextSteps
